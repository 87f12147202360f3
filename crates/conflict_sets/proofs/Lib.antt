mod Common
pub mod SelectedLaws
pub mod LoopLaws
pub mod CopiedLaws
pub mod TriedLaws
pub mod PlannedLaws
pub mod WalkLaws
pub mod RowLists
pub mod PartLaws
pub mod WithinLaws
pub mod SearchLaws
pub mod ConflictLaws
pub mod TrialEnds
pub mod FoundTrials
pub mod PairLaws
pub mod StillLaws
pub mod Examples
mod TrialExamples
