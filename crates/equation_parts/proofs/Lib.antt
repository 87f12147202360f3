pub mod Common
pub mod FactorLaws
pub mod Rates
pub mod Splits
pub mod ValueLaws
pub mod WholeNumbers
pub mod YearLaws
