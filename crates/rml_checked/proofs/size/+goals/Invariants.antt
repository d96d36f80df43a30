use Rattle.std.proofs.Common.{◌≡◌, ◌+◌, ◌-◌, ◌^◌, min, sum_by, drop, ◌<◌}
use Rattle.rml_resolved.specs.Size.{goal_size}
use Rattle.rml_checked.proofs.size.+goals.Given as goal

abbrev pub invariant-count_goals-loop-goal : goal.invariant-count_goals-loop-goal
invariant-count_goals-loop-goal l = record {
  fits : l.count < 2 ^ 64;
  whole : min (sum_by goal_size l.goals) (2 ^ 64 - 1) ≡ min (l.count + sum_by goal_size (drop l.goal-index l.goals)) (2 ^ 64 - 1);
}
