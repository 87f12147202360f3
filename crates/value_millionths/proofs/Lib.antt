mod Examples
pub mod OutwardLaws
