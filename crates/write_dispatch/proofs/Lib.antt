pub mod GivenUp
pub mod Later
pub mod Queue
pub mod Sums
