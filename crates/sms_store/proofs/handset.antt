pub mod Loading
pub mod Refusals
pub mod Tables
pub mod Turning
