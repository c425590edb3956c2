-- What is proved of the definitions; a reader of the specification may pass these modules over.
pub mod Totals
pub mod Rows
