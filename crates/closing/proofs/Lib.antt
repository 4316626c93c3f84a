pub mod Releasing
pub mod LaterRange
pub mod Sharing
pub mod Stepping
