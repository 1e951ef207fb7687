pub mod Meeting
pub mod Noting
