pub mod messages
pub mod reports
pub mod waiting
pub mod conditions
