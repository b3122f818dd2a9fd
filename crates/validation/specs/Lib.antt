pub mod Good
pub mod Claims
pub mod Inner
