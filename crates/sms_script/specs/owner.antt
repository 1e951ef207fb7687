pub mod OwnersLines
pub mod OwnersText
pub mod ScriptsLines
