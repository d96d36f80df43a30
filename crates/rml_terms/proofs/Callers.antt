-- The lemmas that proofs of other crates cite, each from the file where it is shown.
pub use Rattle.rml_terms.proofs.Environments.{or_else, known_kept, new_kept, look-bind, look_kept, look_new, look_other}
pub use Rattle.rml_terms.proofs.Worth.{Worth, worth_same, worth_self, worth_from, worth_at, worth_map, worth_then, worth_first}
