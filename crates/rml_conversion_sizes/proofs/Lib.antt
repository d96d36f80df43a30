pub mod MadeSmall
