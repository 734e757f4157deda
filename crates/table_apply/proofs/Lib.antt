pub mod Based
pub mod InForce
pub mod Meaning
pub mod Pairs
pub mod Registering
pub mod Steps
pub mod Tables
