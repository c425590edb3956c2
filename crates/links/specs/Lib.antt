pub mod Pair
pub mod Inner
pub mod Laws
pub mod Graphs
