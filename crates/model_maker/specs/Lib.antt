pub mod MadeModel
pub mod MadeText
pub mod Tables
