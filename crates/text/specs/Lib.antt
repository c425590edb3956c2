pub mod Bytes
pub mod Strings
pub mod Parts
pub mod Laws
