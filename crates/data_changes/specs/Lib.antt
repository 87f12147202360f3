pub mod Columns
pub mod Faults
pub mod Files
pub mod Records
pub mod Scenarios
pub mod Told
