pub mod Dispatch
pub mod Later
