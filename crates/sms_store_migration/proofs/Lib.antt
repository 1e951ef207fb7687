pub mod Apart
pub mod Raising
pub mod Renaming
