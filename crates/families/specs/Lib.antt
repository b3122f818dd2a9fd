pub mod Families
pub mod Claims
pub mod Inner
pub mod Numbers
