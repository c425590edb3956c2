pub mod LineMatch
pub mod Inner
