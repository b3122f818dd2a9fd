pub mod Interleaved
pub mod Claims
