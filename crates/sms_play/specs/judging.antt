pub mod Watching
pub mod Premises
pub mod Judging
