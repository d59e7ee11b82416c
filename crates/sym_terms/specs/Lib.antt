pub mod Labels
pub mod Trees
pub mod Sameness
pub mod NormalForms
pub mod Values
pub mod Laws
pub mod Back
