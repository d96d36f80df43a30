pub mod HeapState
pub mod Form
pub mod Text
pub mod Reading
pub mod Agrees
pub mod Compared
pub mod Sample
