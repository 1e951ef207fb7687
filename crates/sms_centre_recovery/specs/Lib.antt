pub mod soundness
pub mod starting
