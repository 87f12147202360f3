pub mod Words
pub mod Nothing
pub mod FoldLaws
pub mod LineLaws
pub mod MergeLaws
pub mod RowLaws
pub mod RunLaws
pub mod StartLaws
pub mod EndLaws
pub mod CheckLaws
pub mod Examples
mod TradeExamples
pub mod CarryLaws
pub mod AttemptLaws
