pub mod Words
pub mod Widths
pub mod Operators
pub mod C
pub mod Signs
pub mod Laws
