pub mod Laid
pub mod Wholes
