pub mod Answers
pub mod Jobs
pub mod Queues
pub mod Seats
