-- The lemmas that proofs of other crates cite, each from the file where it is shown.
pub use Rattle.rml_named.proofs.Alike.{Alike, binds_alike, itself, meaning_alike, meant_alike, silent_alike, step_alike, steps_over, text_told}
