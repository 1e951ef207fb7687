pub mod RowsInKeep
