-- The lemmas that proofs of other crates cite, each from the file where it is shown.
pub use Rattle.rml_phrases.proofs.Loops.{SoFar, begins, ended, fails, fails-at, front-more, goes-on, no-front, with_front}
