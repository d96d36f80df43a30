pub mod Made
pub mod Names
pub mod Terms
pub mod Rules
