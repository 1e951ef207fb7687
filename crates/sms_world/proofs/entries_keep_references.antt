pub mod RowsGiven
pub mod EntriesAgreeing
pub mod Elsewhere
