mod Counting
pub mod EventMoves
mod Newest
pub mod MovesSteady
