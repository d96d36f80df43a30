-- The lemmas that proofs of other crates cite, each from the file where it is shown.
pub use Rattle.rml_search.proofs.Depth.{steps_to_call}
pub use Rattle.rml_search.proofs.Standing.{goal_values, result_values}
