pub mod TimelyFrames
pub mod FreshRounds
pub mod WorldTimely
