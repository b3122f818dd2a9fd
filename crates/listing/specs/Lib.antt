pub mod Inner
pub mod Text
pub mod Listing
