-- The lemmas that proofs of other crates cite, each from the file where it is shown.
pub use Rattle.rml_trail.proofs.Futures.{future-added, future-longer, future-restored, future-same, future-then}
pub use Rattle.rml_trail.proofs.Trails.{fits-added, fits-nothing, unset-no_head, word-no_head, fits-frames, fits-taken_back, fits-undone}
