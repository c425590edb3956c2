pub mod Operators
pub mod Expressions
pub mod Examples
pub mod Laws
