pub mod Chains
pub mod Counts
pub mod Elements
pub mod Readings
