-- The lemmas that proofs of other crates cite, each from the file where it is shown.
pub use Rattle.rml_simulation.proofs.Carried.{first_simulates, told_simulate}
pub use Rattle.rml_simulation.proofs.Followed.{both_traced, followed_after, followed_else, followed_step, followed_then, followed_unless, traced_none, traced_weight}
pub use Rattle.rml_simulation.proofs.SimulatesMoves.{both_step, both_step_here, equal, itself, light, lower, new_step, new_weigh, old_step, old_weigh, old_wrong, weaken, new_full}
