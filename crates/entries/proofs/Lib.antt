pub mod Accepted
pub mod AsLinked
pub mod Gives
pub mod Lengths
pub mod Linkable
pub mod Summing
pub mod Takes
pub mod Walking
