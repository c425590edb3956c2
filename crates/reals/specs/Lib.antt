pub mod Reals
pub mod Laws
