pub mod RoundingLaws
