pub mod Circles
pub mod Same
pub mod Facts
