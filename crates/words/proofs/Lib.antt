pub mod Bounds
pub mod Divisions
pub mod OfC
pub mod Products
pub mod Widths
