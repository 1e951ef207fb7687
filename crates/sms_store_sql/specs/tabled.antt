pub mod MetaTable
pub mod TablePlan
pub mod Tabled
pub mod Texts
