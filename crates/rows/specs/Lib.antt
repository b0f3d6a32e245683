pub mod Filled
pub mod Portraits
pub mod Placings
