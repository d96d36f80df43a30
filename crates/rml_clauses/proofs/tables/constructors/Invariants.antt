use Rattle.std.proofs.Common.{◌≡◌, map, take}
use Rattle.rml_clauses.specs.Tables.{constructor_of}
use Rattle.rml_clauses.proofs.tables.constructors.Given as goal

abbrev pub invariant-loop-def : goal.invariant-loop-def
invariant-loop-def l = l.all ≡ map (constructor_of l.names l.types) (take l.def-index l.defs)
