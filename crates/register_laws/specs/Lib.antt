pub mod Lists
pub mod Register
