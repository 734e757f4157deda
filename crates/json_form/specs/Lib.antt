pub mod Ids
pub mod Keys
pub mod Kept
pub mod Operations
pub mod Sets
