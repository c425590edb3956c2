pub mod Nodes
pub mod Links
pub mod Values
pub mod Examples
