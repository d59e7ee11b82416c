pub mod Composed
pub mod Counts
pub mod Halves
pub mod NoLonger
pub mod OneBuild
