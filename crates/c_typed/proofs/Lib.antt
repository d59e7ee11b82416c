pub mod Shapes
pub mod Values
pub mod Keeping
pub mod Fitting
