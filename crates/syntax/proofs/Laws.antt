-- What is proved of the definitions; a reader of the specification may pass these modules over.
pub mod Codes
pub mod Longest
pub mod FrontTokens
pub mod Sound
pub mod SoundAd
pub mod Complete
pub mod Accepts
pub mod Numbered
