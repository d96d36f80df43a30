pub mod Fine
pub mod Did
pub mod Kept
pub mod Sees
