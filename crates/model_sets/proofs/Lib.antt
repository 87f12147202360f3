mod Common
pub mod EndLaws
mod Examples
pub mod NameLists
mod ParamExamples
pub mod ParamLaws
pub mod SetLaws
pub mod Tables
pub mod YearLaws
