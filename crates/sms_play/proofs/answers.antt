mod CentreAnswers
mod Checks
pub mod PlayAnswers
