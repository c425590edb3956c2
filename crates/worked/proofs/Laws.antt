-- What the examples are proved by; a reader of the specification may pass these modules over.
pub mod Solving
pub mod Circles
pub mod Trees
