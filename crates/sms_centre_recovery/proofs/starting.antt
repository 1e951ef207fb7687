pub mod QueuedWait
pub mod LinksNew
pub mod RowsSeen
