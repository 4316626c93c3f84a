pub mod Props
pub mod Keeping
