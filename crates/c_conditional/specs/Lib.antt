pub mod Conditional
