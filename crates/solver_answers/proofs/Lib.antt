mod Common
mod Examples
mod LineLaws
mod NumberLaws
mod StartLaws
mod TableExamples
mod TableLaws
pub mod TellingLaws
mod ToldLaws
mod WordLaws
