use Rattle.std.proofs.Common.{◌≡◌, ℕ, length, drop, take}
use Rattle.rml_types.specs.Labels.{all_labels}
use Rattle.rml_types.specs.Runs.{Ready}
use Rattle.rml_types.proofs.labels.tree_of.Given as goal

abbrev pub invariant-loop-label : goal.invariant-loop-label
invariant-loop-label l = record {
  ready : (vars : ℕ) × Ready vars (drop l.label-index l.all) (length l.made.items);
  labels : all_labels l.made.items ≡ take l.label-index l.all;
}
