pub mod All
pub mod Counts
pub mod Members
