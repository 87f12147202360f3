pub mod LineLaws
mod Examples
