pub mod Exits
pub mod Filled
pub mod Memories
pub mod Refuting
pub mod Same
