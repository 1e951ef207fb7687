pub mod Members
pub mod Rounding
pub mod Holding
pub mod Looking
pub mod Accepting
pub mod Counting
pub mod Verdicts
