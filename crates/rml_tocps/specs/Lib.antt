pub mod Carries
pub mod Pass
pub mod Blocks
pub mod Cases
pub mod Matches
pub mod Passing
pub mod Matching
pub mod Examples
