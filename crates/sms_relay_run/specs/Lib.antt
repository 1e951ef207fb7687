pub mod LineReading
pub mod Lines
pub mod Run
pub mod RunEnd
pub mod Fronts
pub mod Sending
pub mod EmptyStore
pub mod relay_laws
