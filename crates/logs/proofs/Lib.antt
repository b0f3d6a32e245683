pub mod Passing
pub mod Lawful
pub mod Turning
pub mod Interleaving
