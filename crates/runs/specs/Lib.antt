pub mod Stores
pub mod Kept
pub mod Runs
pub mod Steps
pub mod Calls
pub mod Results
pub mod Refines
pub mod Portions
