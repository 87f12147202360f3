mod Common
mod PrintedExamples
mod ReadingExamples
pub mod DecimalLemmas
pub mod DigitLemmas
pub mod FractionLemmas
pub mod HeadLemmas
pub mod InverseLaws
pub mod NumberReading
pub mod PrintedLaws
pub mod PrintedRounding
pub mod PrintedTexts
pub mod RatioLemmas
pub mod ScaleLemmas
pub mod TextLemmas
pub mod ValueTextLemmas
