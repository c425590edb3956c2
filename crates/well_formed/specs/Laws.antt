-- What is proved of the definitions; a reader of the specification may pass these modules over.
pub mod Prints
pub mod Definitions
pub mod Named
pub mod Bounds
pub mod Whole
