pub mod Moments
pub mod Events
pub mod Noted
pub mod Beyond
