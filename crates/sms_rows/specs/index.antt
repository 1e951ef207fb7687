pub mod Bounds
pub mod First
pub mod Picked
pub mod Shapes
pub mod Trees
