pub mod awaited
pub mod open_reports
pub mod report_log
pub mod sessions
