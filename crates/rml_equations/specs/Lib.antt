pub mod Coding
pub mod Rebuilding
pub mod Joins
pub mod Stops
