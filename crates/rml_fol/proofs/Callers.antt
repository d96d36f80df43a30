-- The lemmas that proofs of other crates cite, each from the file where it is shown.
pub use Rattle.rml_fol.proofs.Depth.{steps_to_call}
pub use Rattle.rml_fol.proofs.Results.{row-few}
