pub mod Tickets
pub mod Chains
mod Tracking
pub mod Values
pub mod MipsTerms
pub mod Parts
mod Growth
pub mod Starts
