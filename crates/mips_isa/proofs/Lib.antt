pub mod Registers
pub mod Rules
pub mod Late
pub mod Memory
pub mod StateWords
