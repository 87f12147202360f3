pub mod Limited
pub mod CurvePoints
pub mod CurveTexts
pub mod Trials
pub mod Curve
pub mod Outcomes
pub mod KeptRows
