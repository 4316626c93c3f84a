pub mod Anywhere
pub mod Recorded
pub mod Visits
