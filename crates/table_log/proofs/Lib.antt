pub mod Acting
pub mod Frames
pub mod Holding
pub mod Keeping
pub mod Prefixes
pub mod Sending
