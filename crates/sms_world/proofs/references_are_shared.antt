pub mod LeftToOthers
