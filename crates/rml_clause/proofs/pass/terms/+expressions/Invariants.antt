use Rattle.std.proofs.Common.{◌≡◌, map, take}
use Rattle.rml_clause.specs.Plain.{expression_of}
use Rattle.rml_clause.proofs.pass.terms.+expressions.Given as goal

abbrev pub invariant-expressions-loop-exp : goal.invariant-expressions-loop-exp
invariant-expressions-loop-exp l = l.all ≡ map (expression_of l.names l.params) (take l.exp-index l.exps)
