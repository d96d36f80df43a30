pub mod MadePatterns
pub mod MadeStatements
pub mod Wholes
