pub mod Answers
pub mod Laws
pub mod Stretches
pub mod Loops
pub mod Proved
