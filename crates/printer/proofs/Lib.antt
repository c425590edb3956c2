pub mod Ads
