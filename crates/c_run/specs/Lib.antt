pub mod Turns
pub mod Interpreter
pub mod Sizes
pub mod Reasons
pub mod Portions
