pub mod Tree
pub mod Shape
pub mod Texts
