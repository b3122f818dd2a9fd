pub mod Refilled
pub mod Claims
