pub mod hub
