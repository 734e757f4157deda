pub mod Chunks
pub mod Example
pub mod Written
