pub mod FirstLines
pub mod Frames
pub mod FrontsJudge
pub mod Fronting
pub mod Relaying
