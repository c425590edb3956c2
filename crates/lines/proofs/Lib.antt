pub mod Finding
pub mod Counting
pub mod Laws
