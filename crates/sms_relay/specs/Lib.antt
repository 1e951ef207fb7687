pub mod Cause
pub mod FaultCode
pub mod MessageType
pub mod Rejecting
pub mod RelayGrammar
pub mod RelayReading
