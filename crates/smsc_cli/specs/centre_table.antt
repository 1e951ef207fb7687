pub mod CentreTable
pub mod Progressing
pub mod Selecting
pub mod StuckTable
