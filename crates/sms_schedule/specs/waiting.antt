pub mod Base
pub mod Waiting
