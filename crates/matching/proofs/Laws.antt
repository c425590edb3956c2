-- What is proved of the definitions; a reader of the specification may pass these modules over.
pub mod Concluding
pub mod Traversed
pub mod Exchange
pub mod OneAnswer
pub mod Running
