pub mod Arrows
pub mod Lines
pub mod Names
pub mod Text
