pub mod Grouping
pub mod HeldRoom
pub mod Joined
pub mod Newest
