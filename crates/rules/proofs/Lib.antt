pub mod Worked
pub mod Refused
pub mod Recounted
