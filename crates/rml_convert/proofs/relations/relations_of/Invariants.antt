use Rattle.std.proofs.Common.{◌≡◌, map, take}
use Rattle.rml_conversion.specs.Tables.{relation_made}
use Rattle.rml_convert.proofs.relations.relations_of.Given as goal

abbrev pub invariant-loop-clause : goal.invariant-loop-clause
invariant-loop-clause l = l.all ≡ map relation_made (take l.clause-index l.clauses)
