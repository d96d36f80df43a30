use Rattle.std.proofs.Common.{◌≡◌, map, drop}
use Rattle.rml_types.specs.Schemes.{every}
use Rattle.rml_resolved.specs.Typing.{type_fits}
use Rattle.rml_fitting.proofs.typing.+types.Given as goal

abbrev pub invariant-are_types_whole-loop-tree : goal.invariant-are_types_whole-loop-tree
invariant-are_types_whole-loop-tree l = every (map (type_fits l.types) l.trees) ≡ every (map (type_fits l.types) (drop l.tree-index l.trees))
