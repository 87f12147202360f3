pub mod Formed
pub mod Gcd
pub mod Range
pub mod Rational
pub mod Steps
pub mod Value
