pub mod Entering
pub mod SegmentStates
pub mod Walks
pub mod Handing
pub mod Queueing
