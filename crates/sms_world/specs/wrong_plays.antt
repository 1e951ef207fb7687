pub mod Plays
pub mod Told
pub mod Shown
pub mod Happened
pub mod Played
pub mod SentUp
pub mod Pieces
pub mod SplitText
