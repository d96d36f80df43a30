pub mod Lasts
pub mod Opened
