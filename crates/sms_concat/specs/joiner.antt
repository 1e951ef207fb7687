pub mod FaultCodes
pub mod StepwiseJoining
