pub mod Arriving
pub mod PieceEnds
pub mod Pieces
pub mod Reading
pub mod Sharing
pub mod Ways
