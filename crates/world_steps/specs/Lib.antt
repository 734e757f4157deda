pub mod Pairs
pub mod Waiting
pub mod World
