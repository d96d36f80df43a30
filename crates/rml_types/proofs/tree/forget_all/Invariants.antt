use Rattle.std.proofs.Common.{map}
use Rattle.rml_types.specs.Finite.{nodes, sum_of}
use Rattle.rml_types.proofs.tree.forget_all.Given as goal

abbrev pub decreases-loop-tree : goal.decreases-loop-tree
decreases-loop-tree l = sum_of (map nodes l.rest)
