pub mod ClapWords
pub mod Commands
pub mod Forms
pub mod LimitLists
pub mod Ranges
pub mod WordParts
pub mod WordValues
pub mod Words
