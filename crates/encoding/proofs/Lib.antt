pub mod Linear
pub mod SideLaws
pub mod EndLaws
pub mod Nodes
pub mod Answers
pub mod Proved
