use Rattle.std.proofs.Common.{◌≡◌, ◌+◌, ◌-◌, ◌^◌, min, sum_by, drop, ◌<◌}
use Rattle.rml_fol.specs.Size.{nodes}
use Rattle.rml_clauses.proofs.weights.+expressions.Given as goal

abbrev pub invariant-count_all_nodes-loop-expression : goal.invariant-count_all_nodes-loop-expression
invariant-count_all_nodes-loop-expression l = record {
  fits : l.count < 2 ^ 64;
  whole : min (sum_by nodes l.expressions) (2 ^ 64 - 1) ≡ min (l.count + sum_by nodes (drop l.expression-index l.expressions)) (2 ^ 64 - 1);
}
