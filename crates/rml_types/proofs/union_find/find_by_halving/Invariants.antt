use Rattle.rml_types.proofs.ParentLists.{Found}
use Rattle.rml_types.proofs.union_find.find_by_halving.Given as goal

abbrev pub invariant-loop-parents : goal.invariant-loop-parents
invariant-loop-parents l = Found l.initial.parents l.node l.parents l.at

abbrev pub decreases-loop-parents : goal.decreases-loop-parents
decreases-loop-parents l = l.at
