pub mod CodeTables
pub mod Data
pub mod Members
pub mod Names
pub mod Params
pub mod Refusals
pub mod Years
