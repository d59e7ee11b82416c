pub mod Frames
pub mod Offsets
pub mod Locations
pub mod Elements
pub mod Code
pub mod Comparisons
pub mod Prefixes
pub mod Numbers
