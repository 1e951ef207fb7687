pub mod DoneParts
pub mod Entries
pub mod PartRows
pub mod PartsWaiting
