use Rattle.std.proofs.Common.{◌≡◌, ◌++◌, map, drop}
use Rattle.rml_meanings.specs.Bodies.{body_in}
use Rattle.rml_meanings.proofs.definitions.bodies.Given as goal

abbrev pub invariant-loop-def : goal.invariant-loop-def
invariant-loop-def l = map (body_in l.owner) l.types ≡ l.all.items ++ map (body_in l.owner) (drop l.def-index l.types)
