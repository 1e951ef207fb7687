pub mod Finding
pub mod Indexing
pub mod Passing
pub mod Registering
pub mod Rooms
