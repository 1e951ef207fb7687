pub mod AccountTotals
pub mod Occupants
pub mod Refusals
