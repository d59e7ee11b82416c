pub mod Trees
pub mod WordTrees
pub mod Codings
pub mod Kinds
