pub mod Units
pub mod Patterns
pub mod Steps
pub mod Cases
