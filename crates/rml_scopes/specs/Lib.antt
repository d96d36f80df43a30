pub mod Faults
pub mod Steps
pub mod Meaning
pub mod Machine
pub mod Sentences
pub mod Module
pub mod Walks
