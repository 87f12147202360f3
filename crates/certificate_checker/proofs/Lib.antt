mod Common
pub mod ConditionLaws
pub mod ValueChecks
pub mod KindLaws
pub mod SumSteps
pub mod CostSteps
pub mod OverLaws
pub mod FailingLaws
pub mod ValueMeaning
pub mod SumLaws
pub mod DualityLaws
pub mod NamedSums
pub mod DirectionLaws
pub mod DenominatorLaws
pub mod PlanMeaning
pub mod VerdictLaws
pub mod ColumnSteps
pub mod MultiplierSteps
pub mod MultiplierMeaning
pub mod CertificateMeaning
pub mod GapLaws
mod Examples
