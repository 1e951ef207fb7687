pub mod Blank
pub mod ColumnPlan
pub mod Judged
pub mod StoredTable
