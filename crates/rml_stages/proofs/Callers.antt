-- The lemmas that proofs of other crates cite, each from the file where it is shown.
pub use Rattle.rml_stages.proofs.OneReading.{one-text, same-spots}
pub use Rattle.rml_stages.proofs.OneReadingOfAll.{each-list, not-both-of-all, one-first-refusal}
pub use Rattle.rml_stages.proofs.Over.{all-behind, all-later, behind, over-later}
