pub mod Steps
pub mod Turns
pub mod Shares
pub mod Pairing
pub mod Rounds
pub mod Places
