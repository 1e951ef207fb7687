pub mod Archiving
pub mod Loading
pub mod Saving
