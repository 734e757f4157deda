pub mod Forms
pub mod Left
pub mod Numbers
pub mod Objects
pub mod Parts
pub mod Choices
pub mod Texts
