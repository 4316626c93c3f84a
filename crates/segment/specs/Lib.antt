pub mod Pointers
pub mod Signs
pub mod Bounds
pub mod Changes
pub mod Updates
pub mod Rows
pub mod Pages
pub mod Bases
