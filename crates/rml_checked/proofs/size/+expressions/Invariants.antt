use Rattle.std.proofs.Common.{◌≡◌, ◌+◌, ◌-◌, ◌^◌, min, sum_by, drop, ◌<◌}
use Rattle.rml_resolved.specs.Size.{exp_size}
use Rattle.rml_checked.proofs.size.+expressions.Given as goal

abbrev pub invariant-count_expressions-loop-exp : goal.invariant-count_expressions-loop-exp
invariant-count_expressions-loop-exp l = record {
  fits : l.count < 2 ^ 64;
  whole : min (sum_by exp_size l.exps) (2 ^ 64 - 1) ≡ min (l.count + sum_by exp_size (drop l.exp-index l.exps)) (2 ^ 64 - 1);
}
