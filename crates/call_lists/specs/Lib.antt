pub mod Numbers
pub mod Parts
pub mod Signs
pub mod Words
