-- What is proved of the definitions; a reader of the specification may pass these modules over.
pub mod Stored
pub mod Graph
pub mod Parts
pub mod Own
pub mod Returning
pub mod Meaning
pub mod Same
pub mod Texts
