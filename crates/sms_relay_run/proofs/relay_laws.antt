pub mod Lengths
pub mod Frames
pub mod Numbers
pub mod FirstFrame
pub mod Accepting
pub mod Offered
pub mod Cases
