pub mod Slopes
pub mod Ends
pub mod Points
