pub mod Answers
pub mod Files
pub mod Listed
pub mod Reading
pub mod Records
pub mod Texts
