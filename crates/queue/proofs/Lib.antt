pub mod Order
pub mod Swaps
pub mod Rises
pub mod Sinks
pub mod Settles
pub mod Fronts
pub mod Bags
pub mod Calls
