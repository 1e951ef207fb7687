pub mod Judged
pub mod ScriptsLines
