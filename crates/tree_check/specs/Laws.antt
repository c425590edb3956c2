-- What is proved of the definitions; a reader of the specification may pass these modules over.
pub mod Runs
pub mod Leaves
pub mod Trees
pub mod Operands
pub mod Prints
