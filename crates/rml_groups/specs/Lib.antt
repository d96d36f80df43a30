pub mod Groups
pub mod Members
pub mod Spots
pub mod Found
