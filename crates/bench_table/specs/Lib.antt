pub mod Labels
pub mod Back
pub mod Ready
