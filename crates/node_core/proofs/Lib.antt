pub mod Outs
pub mod Requests
pub mod StartingMaps
pub mod StartingOrder
pub mod Streams
pub mod Ticks
