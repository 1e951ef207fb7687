pub mod NextState
pub mod EventOutcome
