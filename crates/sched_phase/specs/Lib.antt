-- to believe
pub mod Schedules
pub mod Options
pub mod Phases
pub mod Outcomes
-- words of private functions
pub mod Settling
