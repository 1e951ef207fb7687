pub mod drawing
pub mod sessions
