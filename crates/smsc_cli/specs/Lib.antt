pub mod centre_table
pub mod columns
pub mod handset_table
pub mod words
