pub mod Labels
pub mod Back
pub mod Meaning
pub mod Standing
