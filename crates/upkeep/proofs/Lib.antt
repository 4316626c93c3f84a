pub mod Reached
pub mod Cuts
pub mod Settles
pub mod Releases
pub mod Folds
pub mod Closes
