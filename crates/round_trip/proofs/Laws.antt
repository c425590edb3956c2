-- What is proved of reading and printing together.
pub mod Derives
pub mod Fronts
pub mod Lexing
pub mod RoundTrip
pub mod Deepest
pub mod Written
pub mod Fits
pub mod Readable
pub mod Parentheses
pub mod WithoutPair
