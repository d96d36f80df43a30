pub mod OneReading
pub mod OneReadingOfAll
pub mod Causes
pub mod Calls
pub mod Turns
pub mod LaterNames
pub mod Over
pub mod Callers
