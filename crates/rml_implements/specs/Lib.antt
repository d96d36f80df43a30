pub mod Given
pub mod Layout
pub mod World
pub mod Implements
pub mod Rules
