pub mod Nexts
pub mod Orders
mod Rows
