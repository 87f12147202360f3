pub mod KeyLaws
pub mod ListedLaws
