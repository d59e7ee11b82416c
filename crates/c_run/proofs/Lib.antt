pub mod Going
pub mod Acts
pub mod Calls
pub mod Sizes
pub mod Turns
pub mod Explained
