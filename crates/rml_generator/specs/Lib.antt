pub mod Entries
pub mod Adds
pub mod Scopes
pub mod Sides
