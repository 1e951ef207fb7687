pub mod Events
pub mod Moving
