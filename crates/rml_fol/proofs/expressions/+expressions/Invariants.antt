use Rattle.std.proofs.Common.{◌≡◌, ◌++◌, map, take}
use Rattle.rml_fol.specs.TermText.{separated, seated, expression_written}
use Rattle.rml_fol.proofs.expressions.+expressions.Given as goal

abbrev pub invariant-write_expressions-loop-i : goal.invariant-write_expressions-loop-i
invariant-write_expressions-loop-i l = l.out.items ≡ l.fn.out.items ++ separated l.between (map (λ x. seated l.in_chain (expression_written l.parts x)) (take l.i l.expressions))
