pub mod Meaning
pub mod Fail
pub mod Texts
