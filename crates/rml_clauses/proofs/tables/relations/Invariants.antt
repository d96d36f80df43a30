use Rattle.std.proofs.Common.{take}
use Rattle.rml_clauses.specs.Tables.{AreRelationsOf}
use Rattle.rml_clauses.proofs.tables.relations.Given as goal

abbrev pub invariant-loop-def : goal.invariant-loop-def
invariant-loop-def l = AreRelationsOf l.names (take l.def-index l.defs) l.all
