pub mod Dividing
pub mod FieldLaws
pub mod Joined
pub mod Numbering
pub mod Uniqueness
pub mod References
pub mod Room
pub mod Tallies
pub mod Bodies
mod Rows
