pub mod centre
pub mod handset
pub mod keeping
