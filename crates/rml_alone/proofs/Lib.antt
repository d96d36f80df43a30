pub mod Deciding
pub mod Starting
pub mod Variables
pub mod Texts
pub mod Decided
pub mod Verdicts
pub mod Halving
pub mod Callers
