pub mod Worked
pub mod Sizes
