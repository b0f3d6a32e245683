pub mod Rows
pub mod Forks
pub mod Ends
pub mod Wanting
pub mod Spreads
