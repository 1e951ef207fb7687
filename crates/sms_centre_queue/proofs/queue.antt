pub mod Latest
pub mod Putting
pub mod FreeCounted
