pub mod Brought
pub mod Examples
pub mod Recency
