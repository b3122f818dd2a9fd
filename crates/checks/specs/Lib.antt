pub mod Checks
pub mod Parameters
pub mod Refusals
pub mod Claims
