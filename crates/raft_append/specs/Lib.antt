pub mod Commit
pub mod Merge
pub mod Peers
