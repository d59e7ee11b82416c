pub mod Mapped
