pub mod RowPrograms
