pub mod Written
pub mod Powers
