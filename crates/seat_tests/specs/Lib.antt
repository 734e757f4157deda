pub mod Made
pub mod Writers
