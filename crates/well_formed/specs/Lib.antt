pub mod WellFormed
pub mod Inner
pub mod Laws
