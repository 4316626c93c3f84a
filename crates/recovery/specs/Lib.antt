pub mod Plans
pub mod Outcomes
pub mod Placing
pub mod Recoverable
pub mod Begun
