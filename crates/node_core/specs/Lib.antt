pub mod Journal
pub mod Parts
pub mod Saying
pub mod Starting
pub mod Step
