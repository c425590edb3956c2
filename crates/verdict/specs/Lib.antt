pub mod Verdict
pub mod Inner
pub mod Laws
