mod Common
pub mod KeyedLaws
mod Examples
