pub mod ClaimMoves
