pub mod Variables
pub mod Slots
pub mod Loads
pub mod Holds
