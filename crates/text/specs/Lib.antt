pub mod Shown
pub mod Written
