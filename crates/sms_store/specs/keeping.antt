pub mod Closing
pub mod Counted
pub mod InKeep
pub mod Opened
pub mod Refusing
pub mod Stores
