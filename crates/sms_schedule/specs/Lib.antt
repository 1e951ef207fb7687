pub mod Precedence
pub mod waiting
