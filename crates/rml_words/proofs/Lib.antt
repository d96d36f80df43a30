pub mod Numbers
pub mod Held
pub mod Reading
pub mod Callers
