use Rattle.std.proofs.Common.{◌≡◌, ◌+◌, ◌-◌, ◌^◌, min, sum_by, drop, ◌<◌}
use Rattle.rml_resolved.specs.Size.{pattern_size}
use Rattle.rml_checked.proofs.size.+patterns.Given as goal

abbrev pub invariant-count_patterns-loop-pattern : goal.invariant-count_patterns-loop-pattern
invariant-count_patterns-loop-pattern l = record {
  fits : l.count < 2 ^ 64;
  whole : min (sum_by pattern_size l.patterns) (2 ^ 64 - 1) ≡ min (l.count + sum_by pattern_size (drop l.pattern-index l.patterns)) (2 ^ 64 - 1);
}
