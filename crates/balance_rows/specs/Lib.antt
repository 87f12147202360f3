pub mod Balance
pub mod Flows
pub mod Rows
