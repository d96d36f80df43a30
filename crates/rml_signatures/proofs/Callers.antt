-- The lemmas that proofs of other crates cite, each from the file where it is shown.
pub use Rattle.rml_signatures.proofs.Keys.{filtered-more}
pub use Rattle.rml_signatures.proofs.Turns.{appended, split, with-filtered}
