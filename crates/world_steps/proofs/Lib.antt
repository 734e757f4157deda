pub mod Least
pub mod Pairs
pub mod States
pub mod Waits
