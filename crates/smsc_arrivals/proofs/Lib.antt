pub mod Came
pub mod Crossing
pub mod SharingKeeps
