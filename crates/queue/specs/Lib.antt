pub mod Ranks
pub mod Keys
pub mod Heaps
pub mod Steps
pub mod Held
