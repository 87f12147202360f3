pub mod Compared
pub mod Compare
pub mod Standings
