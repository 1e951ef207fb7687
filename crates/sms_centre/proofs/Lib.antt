mod ActsFirst
pub mod Archived
mod AsDefined
mod Barred
pub mod Enrolled
mod MayGo
mod Forgotten
mod Promises
mod Registered
