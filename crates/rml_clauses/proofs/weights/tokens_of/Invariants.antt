use Rattle.std.proofs.Common.{◌≡◌, ◌+◌, sum_by, drop}
use Rattle.rml_clauses.proofs.weights.tokens_of.Given as goal

abbrev pub invariant-loop-rule : goal.invariant-loop-rule
invariant-loop-rule l = sum_by (λ r. r.tokens) l.rules ≡ l.tokens + sum_by (λ r. r.tokens) (drop l.rule-index l.rules)
