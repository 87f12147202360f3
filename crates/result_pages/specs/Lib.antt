pub mod Escaping
pub mod FileNames
pub mod Pages
