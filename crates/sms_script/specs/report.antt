pub mod ReportText
