pub mod Costs
pub mod Worth
pub mod Found
pub mod Refusals
pub mod Answers
