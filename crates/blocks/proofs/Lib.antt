pub mod BlockLaws
pub mod PartLaws
pub mod XorBytes
pub mod JoinedLaws
