pub mod MadeEnds
