pub mod Lookups
pub mod Declarations
pub mod Files
pub mod Outlines
