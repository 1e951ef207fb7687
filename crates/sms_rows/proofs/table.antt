pub mod KeyLaws
pub mod Places
pub mod Removals
pub mod Ring
pub mod SinceLaws
pub mod Tables
