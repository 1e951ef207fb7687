pub mod Listed
pub mod Metas
pub mod TwoColumns
