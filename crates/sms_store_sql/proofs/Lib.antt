pub mod tabled
