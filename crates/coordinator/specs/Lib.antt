pub mod Acks
pub mod Proposals
