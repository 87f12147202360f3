pub mod Outwards
pub mod Shown
