pub mod Gives
pub mod Run
