pub mod AllSame
pub mod ListItems
pub mod Callers
