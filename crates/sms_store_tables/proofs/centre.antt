pub mod Completed
pub mod Indexing
pub mod Parameters
pub mod PiecesRead
