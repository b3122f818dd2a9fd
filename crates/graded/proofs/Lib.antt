pub mod OrderLaws
pub mod TableLaws
pub mod NumberLaws
pub mod Walks
pub mod Proved
