pub mod Olds
pub mod SumKeys
pub mod Sums
