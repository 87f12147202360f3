mod Common
mod Examples
pub mod GreatestFirstLaws
pub mod LeastCostLaws
pub mod OrderLaws
pub mod PrintedLaws
pub mod RangeLaws
pub mod SizeLaws
pub mod TextLaws
