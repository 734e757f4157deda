pub mod Asking
pub mod Going
pub mod Joined
pub mod Planning
pub mod Quiet
pub mod Readies
pub mod Taking
