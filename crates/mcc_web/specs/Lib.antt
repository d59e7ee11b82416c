pub mod Answers
pub mod Telling
pub mod Machines
pub mod Orders
