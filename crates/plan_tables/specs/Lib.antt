pub mod Columns
pub mod TableNames
pub mod ValueTables
