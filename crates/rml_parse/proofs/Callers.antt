-- The lemmas that proofs of other crates cite, each from the file where it is shown.
pub use Rattle.rml_parse.proofs.Stops.{not-both, one-stop, stops-at}
