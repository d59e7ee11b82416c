-- to believe
pub mod Operators
pub mod Programs
pub mod Meaning
pub mod Laws
pub mod Numbers
-- what passes over programs speak of
pub mod Names
-- words of private functions
pub mod Interpreter
pub mod Tails
