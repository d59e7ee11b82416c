pub mod Numbers
pub mod Terms
pub mod World
pub mod Law
pub mod Items
