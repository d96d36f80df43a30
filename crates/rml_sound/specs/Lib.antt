pub mod Full
pub mod Values
pub mod Safe
pub mod Declaring
pub mod Sample
