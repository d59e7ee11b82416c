pub mod Places
pub mod Asked
pub mod Told
pub mod Shown
