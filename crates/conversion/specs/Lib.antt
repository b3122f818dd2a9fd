pub mod Converted
pub mod Inner
pub mod Claims
