use Rattle.std.proofs.Common.{◌≡◌, ◌++◌, take}
use Rattle.rml_types.specs.Labels.{looked_at}
use Rattle.rml_types.proofs.labels.wait.Given as goal

abbrev pub invariant-loop-tree : goal.invariant-loop-tree
invariant-loop-tree l = looked_at l.waiting.items ≡ looked_at l.initial.waiting.items ++ take l.tree-index l.trees
