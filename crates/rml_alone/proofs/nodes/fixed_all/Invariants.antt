use Rattle.rml_alone.proofs.Starting.{FixedTo}
use Rattle.rml_alone.proofs.nodes.fixed_all.Given as goal

abbrev pub invariant-loop-tree : goal.invariant-loop-tree
invariant-loop-tree l = FixedTo l.fn.graph l.graph l.trees l.tree-index l.nodes.items
