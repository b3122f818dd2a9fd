pub mod Places
pub mod TransposeLaws
pub mod NearLaws
pub mod TileLaws
pub mod MatrixLaws
