pub mod Least
pub mod Callers
