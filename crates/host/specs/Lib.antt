pub mod Texts
pub mod Numbers
pub mod Requests
pub mod Hosts
pub mod OneFile
pub mod WrongWords
pub mod Places
