pub mod Own
pub mod Typed
pub mod Parts
pub mod Units
pub mod Untyped
pub mod Checked
pub mod BuiltIns
