pub mod Copied
pub mod RowsInKeep
