mod Rows
pub mod StatusOctets
pub mod Texts
pub mod Writables
