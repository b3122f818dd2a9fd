pub mod RepairedLaws
pub mod WaveLaws
pub mod Against
pub mod Sums
pub mod Halves
pub mod Full
pub mod Edges
pub mod Proved
