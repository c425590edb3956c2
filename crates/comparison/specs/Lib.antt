pub mod Comparison
pub mod Inner
pub mod Laws
