use Rattle.std.proofs.Common.{◌≡◌, ◌++◌, length, reverse}
use Rattle.rml_types.specs.Labels.{all_labels, labels, looked_at}
use Rattle.rml_types.proofs.labels.labels_of.Given as goal

abbrev pub invariant-loop-tree : goal.invariant-loop-tree
invariant-loop-tree l = all_labels (looked_at l.waiting.items) ++ reverse l.labels.items ≡ labels l.fn.tree

abbrev pub decreases-loop-tree : goal.decreases-loop-tree
decreases-loop-tree l = length (all_labels (looked_at l.waiting.items))
