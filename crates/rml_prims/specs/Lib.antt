pub mod Binds
pub mod Taken
pub mod Standing
pub mod Laid
pub mod Found
pub mod Exact
pub mod Calculated
pub mod Shapes
