pub mod AncestorMaps
pub mod Equal
pub mod Histories
pub mod Paths
pub mod Walks
