mod Common
mod Examples
pub mod ColumnLaws
pub mod KindLaws
pub mod TextLaws
