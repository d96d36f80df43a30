pub mod Numbers
pub mod Forms
pub mod View
pub mod Reading
