pub mod Runs
pub mod Signatures
pub mod Least
