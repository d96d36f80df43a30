pub mod Callers
pub mod Labels
pub mod WrittenTypes
pub mod Doubling
