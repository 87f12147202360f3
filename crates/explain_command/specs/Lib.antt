pub mod NamedConflicts
pub mod ShownConflicts
pub mod Texts
pub mod Explain
pub mod Outcomes
