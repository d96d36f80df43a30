pub mod Fewer
pub mod Using
pub mod Owned
pub mod Faultless
pub mod Wholes
pub mod BuiltInTypes
pub mod BuiltInRules
pub mod Callers
