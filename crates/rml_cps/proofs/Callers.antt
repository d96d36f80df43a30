-- The lemmas that proofs of other crates cite, each from the file where it is shown.
pub use Rattle.rml_cps.proofs.Depth.{steps_to_act}
