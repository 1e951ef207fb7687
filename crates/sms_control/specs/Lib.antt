pub mod ControlGrammar
pub mod ControlReading
pub mod Timers
pub mod LinkStep
pub mod DueTimers
pub mod LinkRuns
pub mod FaultCodes
