pub mod Lookups
pub mod Once
pub mod Puts
