pub mod Box
pub mod Bodies
pub mod Claims
pub mod Inner
