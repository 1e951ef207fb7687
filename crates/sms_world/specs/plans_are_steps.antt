pub mod PlannedSteps
