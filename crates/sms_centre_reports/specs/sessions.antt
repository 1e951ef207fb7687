pub mod Answering
pub mod Awaited
pub mod SessionReceipts
pub mod Seats
