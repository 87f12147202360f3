mod Common
pub mod EliminationExamples
mod LiftedExamples
mod FormedExamples
mod RunExamples
pub mod MadeRows
mod PlaceExamples
pub mod RunLaws
pub mod Examples
pub mod CombinedLaws
pub mod PivotLaws
pub mod BasisLaws
pub mod EndLaws
pub mod LeavingLaws
pub mod FirstLaws
pub mod DroppedLaws
pub mod ChosenLaws
pub mod PhaseLaws
pub mod BegunLaws
pub mod SecondPhaseLaws
pub mod ReachedLaws
pub mod ColumnLaws
pub mod CertificateLaws
pub mod VariableLaws
pub mod EndValueLaws
pub mod MeetsLaws
pub mod CostLaws
