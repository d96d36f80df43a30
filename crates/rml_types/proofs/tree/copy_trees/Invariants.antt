use Rattle.std.proofs.Common.{◌≡◌, take}
use Rattle.rml_types.proofs.tree.copy_trees.Given as goal

abbrev pub invariant-loop-tree : goal.invariant-loop-tree
invariant-loop-tree l = l.all ≡ take l.tree-index l.trees
