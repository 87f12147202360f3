pub mod Causes
pub mod Lines
pub mod Prices
pub mod Reports
pub mod Tables
