pub mod ByteLaws
pub mod GoodLaws
pub mod StandLaws
pub mod OwnLaws
pub mod AcceptedLaws
pub mod ValidateLaws
pub mod Proved
