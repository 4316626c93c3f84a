pub mod Frees
pub mod Ends
