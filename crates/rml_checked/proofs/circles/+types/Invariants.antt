use Rattle.std.proofs.Common.{◌≡◌, ◌++◌, map, drop}
use Rattle.std.specs.List.{concat}
use Rattle.rml_resolved.specs.Circles.{types_in}
use Rattle.rml_checked.proofs.circles.+types.Given as goal

abbrev pub invariant-with_all_types-loop-tree : goal.invariant-with_all_types-loop-tree
invariant-with_all_types-loop-tree l = l.fn.all ++ concat (map types_in l.trees) ≡ l.all ++ concat (map types_in (drop l.tree-index l.trees))
