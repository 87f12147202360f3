mod Common
mod Examples
mod LifeExamples
mod NinePlacesExamples
pub mod AnnuityLaws
pub mod ClosenessLaws
pub mod FactorLaws
pub mod KeptLaws
pub mod LifeLaws
pub mod RootLaws
pub mod Scales
pub mod Tables
pub mod ValueLaws
