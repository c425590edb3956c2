-- What is proved of the definitions; a reader of the specification may pass these modules over.
pub mod Closest
pub mod Grid
pub mod Overflow
pub mod Round
pub mod Unique
pub mod Operations
