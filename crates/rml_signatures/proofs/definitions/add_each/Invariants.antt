use Rattle.std.proofs.Common.{◌≡◌, ◌++◌, map, drop}
use Rattle.rml_signatures.specs.Definitions.{definition}
use Rattle.rml_signatures.proofs.definitions.add_each.Given as goal

abbrev pub invariant-loop-name : goal.invariant-loop-name
invariant-loop-name l = l.fn.all.items ++ map (definition l.known l.text l.specs l.decls) l.names ≡ l.all.items ++ map (definition l.known l.text l.specs l.decls) (drop l.name-index l.names)
