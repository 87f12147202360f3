mod Examples
mod FileNameLaws
pub mod TextLaws
