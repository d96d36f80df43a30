pub mod MoreNames
pub mod Callers
