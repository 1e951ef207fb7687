pub mod HandsetLink
pub mod PartMoves
