pub mod Means
pub mod Pastes
pub mod Texts
