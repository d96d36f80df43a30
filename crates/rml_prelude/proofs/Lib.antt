pub mod Behind
pub mod Callers
pub mod Numbered
pub mod Standing
