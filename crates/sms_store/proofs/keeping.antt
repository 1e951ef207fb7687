pub mod Closed
pub mod Leaving
pub mod Lists
pub mod Made
pub mod Openings
pub mod StoresKept
