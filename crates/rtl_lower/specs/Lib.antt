-- to believe
pub mod Laws
pub mod Sizes
-- words of private functions
pub mod Sound
pub mod Coded
pub mod Emits
