pub mod Execution
pub mod Reads
