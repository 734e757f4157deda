pub mod Fitting
pub mod Logs
