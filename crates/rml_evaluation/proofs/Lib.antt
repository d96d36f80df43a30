pub mod Chains
pub mod Evaluated
pub mod Traces
pub mod Callers
