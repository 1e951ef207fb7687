pub mod Amended
pub mod Steps
