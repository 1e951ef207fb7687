pub mod ReferencesRead
