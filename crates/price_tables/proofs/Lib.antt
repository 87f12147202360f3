mod AmountExamples
mod TableExamples
pub mod TextLaws
