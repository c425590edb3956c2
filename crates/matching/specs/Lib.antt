pub mod Matching
pub mod Running
