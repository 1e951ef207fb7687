pub mod Places
pub mod AnswersKeep
pub mod JobsKeep
pub mod Lines
pub mod Marks
pub mod Seating
