pub mod PlayRuns
pub mod PlayRefinement
pub mod Happening
pub mod AllocationLaws
