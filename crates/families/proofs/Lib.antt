pub mod PairLaws
pub mod TetrahedronLaws
pub mod Laws
pub mod TableLaws
pub mod Proved
pub mod EdgeLaws
pub mod FullLaws
