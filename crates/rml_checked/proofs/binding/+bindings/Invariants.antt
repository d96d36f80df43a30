use Rattle.std.proofs.Common.{◌≡◌, ◌++◌, map, drop}
use Rattle.std.specs.List.{concat}
use Rattle.rml_resolved.specs.Binding.{goal_binds}
use Rattle.rml_checked.proofs.binding.+bindings.Given as goal

abbrev pub invariant-with_goals_bound-loop-goal : goal.invariant-with_goals_bound-loop-goal
invariant-with_goals_bound-loop-goal l = l.fn.all ++ concat (map goal_binds l.goals) ≡ l.all ++ concat (map goal_binds (drop l.goal-index l.goals))
