pub mod Admission
pub mod Inner
pub mod Laws
