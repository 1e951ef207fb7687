pub mod Joining
pub mod PutLast
pub mod Reading
pub mod StoredBodies
