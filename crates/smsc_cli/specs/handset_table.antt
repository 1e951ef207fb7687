pub mod HandsetTable
pub mod MessageText
