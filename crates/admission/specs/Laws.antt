-- What is proved of the definitions; a reader of the specification may pass these modules over.
pub mod Refusing
pub mod Rooms
pub mod Wells
