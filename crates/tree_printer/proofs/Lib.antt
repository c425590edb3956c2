pub mod Sizes
pub mod Trees
