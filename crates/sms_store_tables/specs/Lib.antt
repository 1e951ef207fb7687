pub mod References
pub mod amending
pub mod centre
pub mod handset
