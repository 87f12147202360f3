pub mod LimitRows
pub mod Spans
pub mod RoundedSpans
pub mod Slacks
pub mod SpanEnds
pub mod Trials
pub mod LimitedRows
pub mod RoundedTrials
