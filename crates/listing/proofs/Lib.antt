pub mod TextLaws
pub mod PutLaws
pub mod LineLaws
pub mod StepLaws
pub mod ListingLaws
