pub mod FreeReferences
pub mod PartFields
pub mod SoundOutbox
pub mod SoundReferences
pub mod SoundWriting
pub mod OutboxDecided
