pub mod Configs
pub mod Setup
pub mod Sources
pub mod Tables
pub mod Tilings
