pub mod Depth
pub mod Callers
