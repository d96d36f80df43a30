pub mod Agrees
pub mod Meaning
pub mod Tables
pub mod Ready
pub mod Facts
pub mod Paths
