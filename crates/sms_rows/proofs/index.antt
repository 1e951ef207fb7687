mod Bounding
pub mod Picking
mod Sides
