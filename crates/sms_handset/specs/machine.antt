pub mod InMachine
pub mod Starting
pub mod Stepping
