pub mod Exports
pub mod Repairs
pub mod Sessions
pub mod Calls
pub mod Claims
