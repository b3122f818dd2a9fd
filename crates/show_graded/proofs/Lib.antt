pub mod RuleLaws
pub mod PlacedLaws
pub mod PrintedLaws
