pub mod CodedTypes
pub mod RebuiltTypes
pub mod Joining
pub mod Callers
