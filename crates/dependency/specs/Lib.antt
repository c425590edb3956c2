pub mod Traversal
pub mod Inner
pub mod Laws
