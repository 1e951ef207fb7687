pub mod AccountsCome
mod Archived
mod ByFate
mod ByOctets
pub mod Numbers
mod OrdersTold
pub mod RokNames
mod Roomy
pub mod Sittings
mod Spared
mod Standing
mod Stepped
mod RepliesOfPlans
