pub mod Parameters
pub mod RowsRead
