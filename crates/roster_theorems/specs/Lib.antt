pub mod Outcomes
pub mod Rosters
