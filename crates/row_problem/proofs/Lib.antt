pub mod Common
pub mod Tests
pub mod SameLists
pub mod CopiedRows
pub mod ProblemLaws
pub mod PosedLaws
pub mod ProgramLaws
pub mod CompletePlans
pub mod CostLaws
pub mod CarriedWords
pub mod AimLaws
mod SizeExamples
pub mod OverLaws
pub mod FoundWords
mod Examples
