mod Together
mod DoneTogether
pub mod MessagesTested
pub mod DifferTested
pub mod AllocationsTested
pub mod ReportsTested
mod HoldsApart
mod PlacesFound
pub mod WaitingTested
pub mod SplitsTested
pub mod RowsTested
