pub mod Same
pub mod Verdicts
