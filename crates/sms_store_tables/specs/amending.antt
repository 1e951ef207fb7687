pub mod Amending
