mod AllEvents
pub mod AsDefined
mod Awaiting
mod BindingsEvents
mod OpenStays
