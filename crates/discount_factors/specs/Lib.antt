pub mod Closeness
pub mod Factors
pub mod Known
