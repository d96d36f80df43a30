pub mod Environments
pub mod Worth
pub mod Callers
