pub mod Views
pub mod Fronts
pub mod Pairs
pub mod Words
