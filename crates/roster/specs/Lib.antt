pub mod Roster
pub mod Inner
