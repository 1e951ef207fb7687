pub mod Keeping
pub mod Arriving
pub mod OctetLaws
