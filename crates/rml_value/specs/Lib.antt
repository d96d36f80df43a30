pub mod Same
pub mod Range
pub mod Lists
