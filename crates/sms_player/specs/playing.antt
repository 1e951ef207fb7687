pub mod Played
pub mod Places
pub mod Plays
pub mod Playing
pub mod Looked
