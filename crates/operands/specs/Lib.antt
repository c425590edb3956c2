pub mod Strict
pub mod Inner
