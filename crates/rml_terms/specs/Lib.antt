pub mod Env
pub mod Matching
pub mod Evaluating
pub mod Calling
pub mod Running
