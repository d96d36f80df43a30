pub mod Separated
pub mod Depth
pub mod Exact
pub mod Rows
pub mod Results
pub mod Callers
pub mod Waits
