pub mod Unput
pub mod TpdusMade
pub mod UnitOctets
pub mod OneOffer
pub mod Walking
pub mod Planned
