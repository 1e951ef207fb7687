pub mod Messages
pub mod OpenParts
pub mod SplitReferences
pub mod Bars
pub mod SoundMessages
pub mod PartEntries
