pub mod Common
pub mod Makers
pub mod Meaning
