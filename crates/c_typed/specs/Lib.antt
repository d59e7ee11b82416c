pub mod Trees
pub mod Shape
pub mod WellFormed
pub mod Values
pub mod Meaning
pub mod Laws
pub mod Numbers
