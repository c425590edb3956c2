-- What is proved of the definitions; a reader of the specification may pass these modules over.
pub mod Counting
pub mod Soundness
pub mod Layout
pub mod Numbering
pub mod Roots
pub mod Finding
pub mod Kinds
