-- What inner functions are given and ensure; no contract of a public function goes by it.
pub mod Memory
pub mod Marks
