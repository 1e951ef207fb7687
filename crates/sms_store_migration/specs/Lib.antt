pub mod Migrating
pub mod Types
pub mod Versions
