pub mod Follows
pub mod Simulation
pub mod Functions
pub mod Sizes
pub mod Sound
pub mod Emitting
