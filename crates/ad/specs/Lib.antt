pub mod Layout
pub mod Stored
pub mod Inner
pub mod Laws
