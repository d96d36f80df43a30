pub mod Turns
pub mod Alike
pub mod Rows
pub mod Callers
