-- What is proved of the grammar and the reader's definition together.
pub mod Counting
pub mod Alike
pub mod Places
pub mod Expressions
pub mod Ads
pub mod Refusals
