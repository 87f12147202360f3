pub mod Guesses
pub mod Listed
