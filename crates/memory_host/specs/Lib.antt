pub mod Blobs
pub mod Held
pub mod Memory
pub mod Queue
pub mod Grants
