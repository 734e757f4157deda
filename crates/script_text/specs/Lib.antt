pub mod Grammar
pub mod LineReads
pub mod Lines
pub mod Members
pub mod Script
pub mod Shapes
pub mod Sound
pub mod Statuses
