-- The lemmas that proofs of other crates cite, each from the file where it is shown.
pub use Rattle.rml_evaluation.proofs.Chains.{list_turn, chain_turn, head_matched}
pub use Rattle.rml_evaluation.proofs.Evaluated.{vals_to-some, part-le, all-more}
pub use Rattle.rml_evaluation.proofs.Traces.{joined_nothing, after_nothing, after_joined, begins}
