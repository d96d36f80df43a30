pub mod Fronts
pub mod Stores
pub mod Taken
pub mod Callers
