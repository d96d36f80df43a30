pub mod Digits
pub mod Quotients
pub mod Reading
pub mod Keeping
pub mod Rows
pub mod Hashed
pub mod Callers
