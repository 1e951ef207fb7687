pub mod AsPut
pub mod Lengths
