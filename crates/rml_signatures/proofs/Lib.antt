pub mod Callers
pub mod Keys
pub mod Turns
pub mod KnownTables
pub mod PlainTypes
pub mod FewTypes
