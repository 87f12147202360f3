mod Common
pub mod LimitLaws
pub mod LimitSteps
pub mod LimitedLaws
pub mod ValueLaws
pub mod SpanLaws
pub mod PlainStops
pub mod RoundedLaws
pub mod SlackLaws
pub mod Examples
mod OrderExamples
