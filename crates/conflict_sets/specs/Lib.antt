pub mod Trials
pub mod Walks
pub mod Conflicts
pub mod Pieces
pub mod Searches
pub mod RoundedStops
pub mod Halts
