pub mod Keys
pub mod TableDraft
pub mod Since
pub mod Table
