pub mod Kept
pub mod Looks
pub mod Splits
pub mod BarsStand
mod Once
mod Sound
mod Going
mod Claims
pub mod Moves
mod Follow
mod Answers
mod Submits
mod Ended
mod Ticks
mod Frames
mod Sessions
mod Orders
mod Binds
mod Everywhere
mod Behind
pub mod Runs
mod Latest
pub mod Begins
pub mod Removed
pub mod Now
