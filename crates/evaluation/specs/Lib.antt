pub mod Evaluation
pub mod Inner
pub mod Laws
pub mod Marked
