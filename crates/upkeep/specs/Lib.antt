pub mod Worlds
pub mod Drains
