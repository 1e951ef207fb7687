pub mod Answering
pub mod Found
pub mod Knowing
pub mod offering
