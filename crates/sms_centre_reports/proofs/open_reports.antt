pub mod Amended
pub mod Becoming
mod Dropping
pub mod Keeping
mod Moves
pub mod Noting
mod PutOff
mod Rebuilding
mod Removals
pub mod ReceiptsMoved
pub mod Serving
pub mod Walking
