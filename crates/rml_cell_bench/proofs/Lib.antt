pub mod Repeating
pub mod PlacedValues
