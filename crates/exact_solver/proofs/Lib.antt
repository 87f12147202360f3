pub mod Closed
pub mod StepEnds
pub mod SolvedLaws
pub mod FoundLaws
pub mod WorthLaws
pub mod Examples
mod CarryingExamples
