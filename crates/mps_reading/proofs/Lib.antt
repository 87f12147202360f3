mod Common
pub mod Places
pub mod ReadRows
mod ReadingExamples
pub mod Sections
pub mod Sound
pub mod Stated
pub mod Whole
