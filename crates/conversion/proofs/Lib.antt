pub mod Answers
pub mod PlacedLaws
pub mod Parts
pub mod Laws
pub mod Rules
pub mod NewBox
pub mod Proved
