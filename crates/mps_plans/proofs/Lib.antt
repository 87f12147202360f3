mod Common
pub mod AcceptedNames
pub mod Counts
pub mod Law
pub mod NameLines
pub mod Values
mod ProgramExamples
