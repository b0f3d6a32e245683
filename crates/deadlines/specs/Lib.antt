pub mod Ranking
pub mod Queues
