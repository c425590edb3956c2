pub mod Reached
pub mod Ways
