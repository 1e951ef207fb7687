pub mod Faults
pub mod FaultCodes
pub mod Lasting
pub mod Running
