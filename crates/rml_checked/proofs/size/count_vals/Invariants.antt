use Rattle.std.proofs.Common.{◌≡◌, ◌+◌, ◌-◌, ◌^◌, min, sum_by, drop, ◌<◌}
use Rattle.rml_resolved.specs.Size.{val_size}
use Rattle.rml_checked.proofs.size.count_vals.Given as goal

abbrev pub invariant-loop-val : goal.invariant-loop-val
invariant-loop-val l = record {
  fits : l.count < 2 ^ 64;
  whole : min (sum_by val_size l.vals) (2 ^ 64 - 1) ≡ min (l.count + sum_by val_size (drop l.val-index l.vals)) (2 ^ 64 - 1);
}
