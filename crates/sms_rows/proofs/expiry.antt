pub mod Heaps
