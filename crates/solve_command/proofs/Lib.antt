pub mod Common
mod KeptValues
mod LineExamples
mod PricePlaces
mod PromisedPrices
mod ReadingBack
mod RoundedEnds
pub mod RowsDue
mod SecondEnds
mod SolveExamples
pub mod SolvedEnds
mod StartLaws
mod WrittenMultipliers
