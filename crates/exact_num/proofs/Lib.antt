mod Common
pub mod ArithmeticLaws
mod Examples
pub mod GcdLaws
pub mod Integers
pub mod OddLaws
pub mod OperationLaws
pub mod OrderLaws
pub mod RangeLaws
pub mod RationalLaws
pub mod Ring
pub mod StepLaws
pub mod ValueLaws
