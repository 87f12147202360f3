pub mod Lines
pub mod Sections
pub mod Programs
pub mod Statements
pub mod Reading
