pub mod Inspection
