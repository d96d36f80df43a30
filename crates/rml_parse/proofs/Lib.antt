pub mod Exact
pub mod Stops
pub mod Clauses
pub mod Callers
