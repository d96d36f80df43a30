pub mod Numbers
pub mod Reading
pub mod Places
pub mod Definitions
pub mod Types
