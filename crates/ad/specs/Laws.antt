-- What is proved of the layout; a reader of the specification may pass these modules over.
pub mod Content
pub mod Names
pub mod Coding
