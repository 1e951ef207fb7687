pub mod FramesUp
pub mod FramesDown
pub mod Between
