pub mod Places
pub mod SplitSimulation
pub mod Well
pub mod Owned
mod Blocks
mod DataPlaces
mod Linked
mod Frames
mod Simulation
mod Theorem
mod Lists
mod Placed
mod FrameSizes
mod Selecting
mod CodeSizes
pub mod Counted
