pub mod Fillings
pub mod Memories
pub mod Refuting
pub mod Views
