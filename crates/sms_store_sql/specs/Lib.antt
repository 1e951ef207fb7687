pub mod listing
pub mod schema
pub mod tabled
