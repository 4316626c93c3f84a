pub mod Entering
pub mod Same
