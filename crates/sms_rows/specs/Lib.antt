pub mod expiry
pub mod index
pub mod interning
pub mod keep
pub mod table
