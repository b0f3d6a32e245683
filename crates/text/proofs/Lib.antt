pub mod Splits
pub mod FirstLines
pub mod Wholes
pub mod Buffers
pub mod Spellings
pub mod Chains
pub mod Results
