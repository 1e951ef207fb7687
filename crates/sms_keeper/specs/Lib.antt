pub mod Ends
pub mod Fates
pub mod Groups
pub mod History
pub mod Keeping
pub mod OutLists
pub mod Seating
