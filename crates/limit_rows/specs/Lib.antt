pub mod Limits
pub mod RenewableTarget
pub mod ReserveMargin
pub mod Rows
