-- The lemmas that proofs of other crates cite, each from the file where it is shown.
pub use Rattle.rml_io.proofs.Fronts.{and_bytes-nil, wrote_front}
