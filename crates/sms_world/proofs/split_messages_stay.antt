pub mod KeptMessages
pub mod MadeParts
pub mod Places
pub mod SameParts
pub mod SplitEvents
pub mod SplitParts
pub mod SplitTexts
