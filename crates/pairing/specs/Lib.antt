pub mod Pairs
pub mod Claims
pub mod Inner
