pub mod Literals
pub mod Tried
pub mod Worlds
pub mod StatusReports
