pub mod Commands
pub mod Programs
-- for private functions
pub mod Parts
