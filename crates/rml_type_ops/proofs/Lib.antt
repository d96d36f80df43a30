pub mod Instances
pub mod Mutual
pub mod Renamings
pub mod Replacing
