use Rattle.std.proofs.Common.{◌≡◌, map, take}
use Rattle.rml_clause.specs.Plain.{pattern_of}
use Rattle.rml_clause.proofs.pass.terms.+patterns.Given as goal

abbrev pub invariant-patterns-loop-one : goal.invariant-patterns-loop-one
invariant-patterns-loop-one l = l.all ≡ map (pattern_of l.names l.params) (take l.one-index l.patterns)
