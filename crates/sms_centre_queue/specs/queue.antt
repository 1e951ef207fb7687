pub mod Given
pub mod Watching
pub mod FreeReferences
