pub mod TrailState
pub mod Future
