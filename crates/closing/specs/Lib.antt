pub mod Queued
pub mod Shares
