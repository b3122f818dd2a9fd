pub mod Lists
pub mod Inner
