mod Common
mod Examples
pub mod EntryLaws
pub mod NameLaws
pub mod PartLaws
pub mod SubLists
pub mod ToldProofs
pub mod WordLaws
pub mod WrittenProofs
