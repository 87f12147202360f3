pub mod NearBest
pub mod SpanTexts
pub mod LimitedPlaces
pub mod Span
pub mod Outcomes
