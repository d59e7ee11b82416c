-- to believe
pub mod Operations
pub mod Blocks
pub mod Runs
pub mod Expressions
pub mod Sizes
pub mod Sound
pub mod Emits
