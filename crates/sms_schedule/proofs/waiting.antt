pub mod Holding
pub mod Parted
