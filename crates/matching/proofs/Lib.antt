pub mod Assembling
pub mod Laws
