pub mod NewSessions
pub mod Plans
pub mod Given
