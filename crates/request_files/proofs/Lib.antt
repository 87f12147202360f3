pub mod Parts
pub mod InTurnLaws
pub mod MarkedLaws
