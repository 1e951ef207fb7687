pub mod PlayedCentre
pub mod Allocations
