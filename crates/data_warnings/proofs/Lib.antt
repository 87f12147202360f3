mod Common
mod LineEnds
mod Examples
mod StorageExamples
mod LineExamples
pub mod Billionths
pub mod CrossedLimits
pub mod DigitLaws
pub mod FirstLaws
pub mod FoundPlaces
pub mod MarkLaws
pub mod MetEquations
pub mod RangeLaws
pub mod SumLaws
pub mod UnmadeFuels
pub mod UnreachedActivity
