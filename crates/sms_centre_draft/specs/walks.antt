pub mod Stepping
pub mod Expiring
pub mod OldReports
