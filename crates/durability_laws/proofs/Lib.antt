pub mod Backing
pub mod HeldRuns
pub mod Holding
pub mod Lacking
pub mod Places
pub mod Reached
pub mod Telling
