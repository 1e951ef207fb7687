pub mod MessageLines
pub mod Recovering
pub mod CentreState
