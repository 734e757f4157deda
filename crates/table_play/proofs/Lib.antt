pub mod Complete
pub mod EachLine
pub mod Flushes
pub mod Grows
pub mod Outcomes
pub mod Texts
