pub mod Meaning
pub mod Comparing
pub mod Deciding
