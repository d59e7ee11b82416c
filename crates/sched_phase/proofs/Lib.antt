pub mod Serving
pub mod Settled
pub mod Outcomes
pub mod Starting
pub mod Runs
