pub mod Plan
pub mod Made
pub mod Claims
pub mod Inner
