pub mod Lists
pub mod Prelude
pub mod Problems
pub mod Programs
pub mod ProgramsOf
pub mod CarriedBack
pub mod Sizes
