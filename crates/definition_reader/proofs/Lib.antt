pub mod Ads
pub mod Laws
