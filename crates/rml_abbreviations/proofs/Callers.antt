-- The lemmas that proofs of other crates cite, each from the file where it is shown.
pub use Rattle.rml_abbreviations.proofs.WrittenTypes.{written-inst, written-Named, written-Rel, written-Tuple, written-Var, times-more, written-both, written-nothing}
