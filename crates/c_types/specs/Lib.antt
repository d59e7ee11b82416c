pub mod Shape
pub mod Programs
pub mod Files
pub mod Typed
