pub mod Moves
pub mod Programs
pub mod Numbers
pub mod Lists
pub mod Names
