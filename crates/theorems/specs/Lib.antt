pub mod Listing
pub mod Existing
pub mod Texts
pub mod Exchanging
pub mod Fronts
pub mod Refusing
