mod AllSent
mod Candidates
mod Earliest
pub mod Ending
