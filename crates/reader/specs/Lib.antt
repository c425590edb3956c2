pub mod Content
pub mod Inner
