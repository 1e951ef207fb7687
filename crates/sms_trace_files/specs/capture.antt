pub mod Packets
pub mod Records
