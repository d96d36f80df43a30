pub mod Trails
pub mod Futures
pub mod Callers
