pub mod Sights
pub mod Reading
pub mod ReadEnds
pub mod InTurn
pub mod Marked
