pub mod Below
pub mod Begins
pub mod Bounds
pub mod Everywhere
pub mod Nearest
pub mod Shards
pub mod Whole
