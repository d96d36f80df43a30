pub mod Plain
pub mod Fresh
pub mod Narrow
pub mod Made
pub mod Within
pub mod Added
pub mod Clauses
pub mod Carries
