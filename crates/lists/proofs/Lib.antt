pub mod Walks
pub mod Laws
pub mod MarkLaws
pub mod PlaceLaws
pub mod WithoutLaws
