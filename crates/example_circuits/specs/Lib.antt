pub mod Gates
pub mod Back
pub mod Meaning
pub mod Encoded
