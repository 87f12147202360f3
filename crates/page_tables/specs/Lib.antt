pub mod PageTables
