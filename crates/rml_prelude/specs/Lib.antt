pub mod Interface
pub mod Made
pub mod Parts
pub mod Relations
pub mod Rules
pub mod Text
pub mod Words
