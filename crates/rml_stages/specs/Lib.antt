pub mod Refusals
pub mod Reading
pub mod Sources
pub mod Shown
pub mod Over
