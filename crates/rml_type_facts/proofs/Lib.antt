pub mod SameTypes
pub mod CircleGraph
pub mod Turns
pub mod KnownTables
pub mod MainTypes
