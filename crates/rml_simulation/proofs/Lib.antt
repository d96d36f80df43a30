pub mod Follow
pub mod SimulatesMoves
pub mod Followed
pub mod Carried
pub mod Learned
pub mod Silent
pub mod Tried
pub mod Callers
