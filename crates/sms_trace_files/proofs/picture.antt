pub mod Orders
pub mod Pieces
