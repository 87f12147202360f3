mod Common
pub mod AscendingLaws
pub mod DivisionLaws
mod Examples
pub mod Integers
pub mod MeaningLaws
pub mod NameLaws
pub mod Orders
pub mod PlanLaws
mod RowExamples
pub mod RowLaws
pub mod RowWriting
pub mod StatementLaws
pub mod SumLaws
mod Tables
pub mod TermLaws
pub mod Words
pub mod WritingSteps
pub mod WrittenLaws
pub mod AmountLaws
pub mod RepeatedLaws
pub mod LessLaws
pub mod BesideLaws
pub mod NextLaws
pub mod LessenedLaws
pub mod CombinedLaws
pub mod EvaluatedLaws
mod CombinedExamples
pub mod LookUpLaws
pub mod PlanValueLaws
pub mod EquationLaws
mod SourceExamples
pub mod Members
pub mod CopyLaws
