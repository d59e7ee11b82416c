pub mod Lines
pub mod Spelling
pub mod Whole
pub mod StageParts
pub mod Stages
pub mod Faults
