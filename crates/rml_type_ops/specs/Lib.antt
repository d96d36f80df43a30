pub mod Numbered
pub mod Renaming
pub mod Replaced
