pub mod ReportedEntries
