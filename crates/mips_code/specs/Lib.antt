pub mod Machines
pub mod Agreement
pub mod Words
pub mod Candidates
pub mod Decoding
