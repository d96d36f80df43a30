pub mod Loops
pub mod Callers
