pub mod RowLemmas
pub mod Ordered
pub mod AtKeys
pub mod Maps
pub mod Scans
pub mod VersionMaps
