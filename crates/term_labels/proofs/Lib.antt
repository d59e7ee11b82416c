pub mod Codings
pub mod ByKinds
