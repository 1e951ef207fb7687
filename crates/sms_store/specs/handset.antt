pub mod CountersKey
pub mod CountersList
pub mod Founding
pub mod HandsetRows
pub mod Lawful
pub mod Refusing
pub mod Types
