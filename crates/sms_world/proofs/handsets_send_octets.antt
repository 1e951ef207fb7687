pub mod WrittenOctets
pub mod LinkOctets
pub mod StageOctets
pub mod EventOctets
