pub mod Places
pub mod ReportLog
pub mod Reporting
