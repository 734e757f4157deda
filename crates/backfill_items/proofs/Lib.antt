pub mod Fronts
pub mod KeySets
