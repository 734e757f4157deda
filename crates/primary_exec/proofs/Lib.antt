pub mod Sound
pub mod Decides
pub mod Joins
pub mod Values
pub mod Ready
pub mod Starts
