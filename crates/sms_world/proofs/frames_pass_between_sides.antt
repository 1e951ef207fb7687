pub mod Linking
pub mod Passing
pub mod RunsOn
