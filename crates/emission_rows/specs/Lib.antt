pub mod Emissions
pub mod Rows
