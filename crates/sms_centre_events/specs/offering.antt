pub mod Offered
pub mod Stored
pub mod Refusing
