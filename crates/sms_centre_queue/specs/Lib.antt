pub mod queue
pub mod queues
