pub mod Parts
pub mod Answered
pub mod Holding
