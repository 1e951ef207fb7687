pub mod Interning
pub mod Numbers
