use Rattle.std.proofs.Common.{◌≡◌, ◌++◌, map, drop}
use Rattle.rml_signatures.specs.Types.{body_in, told}
use Rattle.rml_signatures.proofs.tables.Tables.bodies.Given as goal

abbrev pub invariant-loop-definition : goal.invariant-loop-definition
invariant-loop-definition l = map (body_in (told l.known l.self) l.texts l.text) l.definition-items ≡ l.bodies.items ++ map (body_in (told l.known l.self) l.texts l.text) (drop l.definition-index l.definition-items)
