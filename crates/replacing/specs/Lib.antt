pub mod Visits
pub mod Silent
