pub mod ReceiptText
pub mod Receipts
pub mod StatusReports
