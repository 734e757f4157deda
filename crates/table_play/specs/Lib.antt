pub mod Headline
pub mod Lines
pub mod Play
pub mod Steps
pub mod Whole
pub mod Words
