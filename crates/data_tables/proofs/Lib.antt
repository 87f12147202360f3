mod Examples
pub mod RatioLaws
pub mod WalkLaws
pub mod WrittenLaws
