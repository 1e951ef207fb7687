pub mod Beginning
pub mod Frames
pub mod Judging
pub mod Marking
pub mod Reading
pub mod Verdicts
pub mod Watching
pub mod Writing
