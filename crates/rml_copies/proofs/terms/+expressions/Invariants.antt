use Rattle.std.proofs.Common.{◌≡◌, take}
use Rattle.rml_copies.proofs.terms.+expressions.Given as goal

abbrev pub invariant-copy_expressions-loop-expression : goal.invariant-copy_expressions-loop-expression
invariant-copy_expressions-loop-expression l = l.all ≡ take l.expression-index l.expressions
