mod Common
pub mod EntryLaws
pub mod MergeLaws
pub mod DivisionLaws
pub mod LineLaws
pub mod ListLaws
pub mod TableauLaws
pub mod SolutionLaws
pub mod PlaceLaws
pub mod StartLaws
pub mod LoopLaws
pub mod NarrowLaws
pub mod GuessLaws
pub mod HeadLaws
mod SizeExamples
pub mod SizeLaws
pub mod MarkLaws
pub mod SwapLaws
pub mod ProductLaws
pub mod LastLaws
