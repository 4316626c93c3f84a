pub mod States
pub mod Ledgers
pub mod Verdicts
pub mod Settling
