pub mod ShownTables
pub mod Tables
