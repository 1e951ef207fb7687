mod AloneParts
pub mod Delivers
pub mod NewMessages
pub mod StaysSubmitted
pub mod WrittenParts
