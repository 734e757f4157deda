pub mod Decided
pub mod Example
pub mod Invariant
pub mod Paths
pub mod Runs
