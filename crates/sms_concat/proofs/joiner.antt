pub mod Around
pub mod Stepwise
