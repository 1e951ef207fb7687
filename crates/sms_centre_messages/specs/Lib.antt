pub mod message_index
pub mod reference_moves
pub mod references
