pub mod Order
pub mod Rows
pub mod Ranges
pub mod Held
pub mod Promises
