pub mod Entries
pub mod Gathered
pub mod MpsText
pub mod SectionLines
pub mod Steps
