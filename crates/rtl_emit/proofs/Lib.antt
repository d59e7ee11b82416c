pub mod Steps
pub mod Blocks
pub mod Operations
pub mod Values
pub mod Emitted
pub mod Sound
pub mod Emitting
mod Weights
