-- What is proved of the definitions; a reader of the specification may pass these modules over.
pub mod Values
pub mod Order
pub mod Runs
pub mod Transfer
pub mod Exchange
