mod Common
mod Examples
pub mod AfterLaws
pub mod ChangeLaws
pub mod CompleteChanges
pub mod FileLaws
pub mod RecordLaws
pub mod ScenarioLaws
pub mod StepLaws
