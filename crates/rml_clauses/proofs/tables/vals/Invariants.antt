use Rattle.std.proofs.Common.{◌≡◌, map, take}
use Rattle.rml_clauses.specs.Tables.{val_of}
use Rattle.rml_clauses.proofs.tables.vals.Given as goal

abbrev pub invariant-loop-def : goal.invariant-loop-def
invariant-loop-def l = l.all ≡ map (val_of l.names) (take l.def-index l.defs)
