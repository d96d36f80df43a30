pub mod Turns
pub mod Follow
pub mod Variables
