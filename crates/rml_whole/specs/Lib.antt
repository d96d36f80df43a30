pub mod Sizes
pub mod Parts
pub mod Types
pub mod Rules
pub mod Texts
pub mod Whole
