pub mod DataNames
pub mod DataTexts
pub mod ParamTables
pub mod RatioWalks
pub mod Walks
pub mod WorthTables
