pub mod Columns
pub mod Drawing
pub mod Elements
pub mod Looks
pub mod Notes
pub mod Places
pub mod Rows
