pub mod capture
pub mod ladder
pub mod picture
