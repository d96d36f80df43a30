pub mod MadeFits
