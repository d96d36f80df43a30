pub mod Counted
pub mod Facts
pub mod Numbers
pub mod Rounds
pub mod Variables
pub mod Words
pub mod Callers
