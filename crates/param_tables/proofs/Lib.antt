mod Common
pub mod AppliedLaws
pub mod AscendingLaws
pub mod BuildLaws
mod CanonicalExamples
pub mod CanonicalLaws
pub mod ChangeLaws
pub mod ChangeToldLaws
mod ChangedExamples
mod ChangesExamples
pub mod ClosedLaws
pub mod CopyLaws
pub mod DataLaws
pub mod EntryLaws
mod Examples
pub mod FactLaws
pub mod GapLaws
pub mod GivenLaws
pub mod IndexLaws
pub mod KeptLaws
pub mod NamedLaws
pub mod NonzeroLaws
pub mod OpenLaws
pub mod ParamLaws
pub mod PlaceLaws
mod RangeExamples
pub mod PutLaws
pub mod RangeLists
pub mod RangeRules
mod RatioExamples
pub mod RatioFacts
pub mod RatioPlaceLaws
pub mod RefusalLaws
pub mod ReplacedLaws
pub mod SearchLaws
pub mod SetLaws
pub mod TableOfLaws
pub mod TurnLaws
pub mod ViewLaws
pub mod WideLaws
