pub mod Matrix
pub mod Inner
pub mod Encode
pub mod Claims
