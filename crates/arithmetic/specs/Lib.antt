pub mod Arithmetic
pub mod Exact
pub mod Inner
pub mod Laws
