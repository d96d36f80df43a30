use Rattle.std.proofs.Common.{◌≡◌, ◌++◌, map, drop}
use Rattle.rml_signatures.specs.Reading.{context_of, type_tree}
use Rattle.rml_signatures.proofs.reading.+types.Given as goal

abbrev pub invariant-type_trees-loop-tree : goal.invariant-type_trees-loop-tree
invariant-type_trees-loop-tree l = map (type_tree (context_of l.view)) l.trees ≡ l.parts ++ map (type_tree (context_of l.view)) (drop l.tree-index l.trees)
