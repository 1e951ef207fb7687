pub mod Ids
pub mod Times
