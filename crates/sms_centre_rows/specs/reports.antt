pub mod Reports
pub mod Waiting
pub mod Receipts
pub mod SoundReports
