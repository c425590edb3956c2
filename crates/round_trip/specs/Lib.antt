pub mod Printed
pub mod Bounded
pub mod WithoutPair
