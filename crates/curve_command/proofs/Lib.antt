pub mod Common
pub mod LimitValues
pub mod LimitedLaws
pub mod RenewedLaws
pub mod KeptBooks
pub mod NamedPoints
pub mod PointPlaces
pub mod TrialLaws
mod LimitExamples
mod TextExamples
pub mod TrialLists
mod RoundedPoints
