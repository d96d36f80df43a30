use Rattle.std.proofs.Common.{◌≡◌, ◌++◌, map, drop}
use Rattle.rml_type_facts.specs.Circles.{mentions}
use Rattle.rml_signatures.specs.Types.{told}
use Rattle.rml_type_facts.proofs.circles.edges.Given as goal

abbrev pub invariant-loop-definition : goal.invariant-loop-definition
invariant-loop-definition l = map (mentions (told l.known l.types.tables) l.texts) l.definition-items ≡ l.all.items ++ map (mentions (told l.known l.types.tables) l.texts) (drop l.definition-index l.definition-items)
