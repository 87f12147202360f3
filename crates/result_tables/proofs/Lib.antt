mod Common
mod Examples
pub mod FoundLaws
pub mod PriceLaws
pub mod TextLaws
