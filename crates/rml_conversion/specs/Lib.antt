pub mod Hand
pub mod Patterns
pub mod Statements
pub mod Tables
