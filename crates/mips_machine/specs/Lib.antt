pub mod Decoding
pub mod ImageRuns
pub mod Places
pub mod Portions
pub mod Rules
pub mod Views
pub mod UnitViews
