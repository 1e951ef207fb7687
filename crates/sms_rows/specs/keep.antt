pub mod FaultCodes
pub mod KeepState
pub mod Refusing
pub mod StoreOutcome
