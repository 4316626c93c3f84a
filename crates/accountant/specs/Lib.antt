pub mod Kept
pub mod Accounts
pub mod Safely
