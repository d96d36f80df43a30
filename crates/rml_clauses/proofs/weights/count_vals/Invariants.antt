use Rattle.std.proofs.Common.{◌≡◌, ◌+◌, ◌-◌, ◌^◌, min, sum_by, drop, ◌<◌}
use Rattle.rml_fol.specs.Size.{nodes}
use Rattle.rml_clauses.proofs.weights.count_vals.Given as goal

abbrev pub invariant-loop-val : goal.invariant-loop-val
invariant-loop-val l = record {
  fits : l.count < 2 ^ 64;
  whole : min (sum_by (λ v. nodes v.value) l.vals) (2 ^ 64 - 1) ≡ min (l.count + sum_by (λ v. nodes v.value) (drop l.val-index l.vals)) (2 ^ 64 - 1);
}
