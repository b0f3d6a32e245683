pub mod Lists
pub mod Taking
pub mod Counting
pub mod Storing
