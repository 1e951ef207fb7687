pub mod Answering
pub mod Asking
pub mod Ends
pub mod Run
pub mod Turns
