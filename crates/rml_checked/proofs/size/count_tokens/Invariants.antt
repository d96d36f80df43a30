use Rattle.std.proofs.Common.{◌≡◌, ◌+◌, ◌-◌, ◌^◌, min, sum_by, drop, ◌<◌}
use Rattle.rml_checked.proofs.size.count_tokens.Given as goal

abbrev pub invariant-loop-rule : goal.invariant-loop-rule
invariant-loop-rule l = record {
  fits : l.count < 2 ^ 64;
  whole : min (sum_by (λ rule. rule.tokens) l.rel.rules) (2 ^ 64 - 1) ≡ min (l.count + sum_by (λ rule. rule.tokens) (drop l.rule-index l.rel.rules)) (2 ^ 64 - 1);
}
