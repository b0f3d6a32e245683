pub mod Bits
pub mod Places
pub mod Least
pub mod Sums
pub mod Waiting
pub mod Growth
pub mod Placement
