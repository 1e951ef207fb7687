pub mod CentreRows
pub mod Founding
pub mod Lawful
pub mod Migrating
pub mod Reading
pub mod Refusing
pub mod Stopping
pub mod Types
