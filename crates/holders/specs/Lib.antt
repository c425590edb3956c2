pub mod Holders
pub mod Laws
