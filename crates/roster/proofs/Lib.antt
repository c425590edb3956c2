pub mod Turning
pub mod Rooms
pub mod Laws
