pub mod Allowed
pub mod Answering
pub mod Searches
