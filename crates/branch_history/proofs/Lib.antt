pub mod AncestorMaps
pub mod Ancestors
pub mod Births
pub mod Grown
pub mod PathLaws
pub mod Times
pub mod Walked
