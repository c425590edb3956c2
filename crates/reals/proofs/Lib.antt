pub mod Divide
pub mod Table
pub mod Literals
