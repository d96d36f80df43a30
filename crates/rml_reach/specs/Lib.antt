pub mod Paths
pub mod Left
pub mod WorkList
pub mod Components
pub mod Walk
pub mod Turned
pub mod Within
