pub mod Order
pub mod Ranges
pub mod Rounds
pub mod Lowering
pub mod Turns
