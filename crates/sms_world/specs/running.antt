pub mod Begun
pub mod Reporting
pub mod RunEnd
