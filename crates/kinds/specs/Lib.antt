pub mod Ordered
pub mod Weights
pub mod Bounds
pub mod TickOrder
pub mod PairOrder
pub mod Fields
