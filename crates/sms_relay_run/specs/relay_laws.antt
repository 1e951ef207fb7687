pub mod Relay
pub mod Relaying
