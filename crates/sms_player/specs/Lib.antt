pub mod centre
pub mod heads
pub mod playing
