mod Common
mod SumLaws
mod MetEquations
mod EnergySums
mod CostSums
mod QuantityLaws
pub mod MovedRows
pub mod PriceLaws
mod WholeTests
mod SumExamples
mod PriceExamples
mod RowPriceExamples
pub mod PromisedPrices
pub mod ShownRowLaws
pub mod ConstantEquations
pub mod ReadAlone
pub mod ChangedConstants
pub mod ChangedDemands
pub mod DataPriceLaws
pub mod PercentLaws
pub mod SpokenRowLaws
mod SpokenExamples
mod DataPriceExamples
