use Rattle.std.proofs.Common.{◌≡◌, drop}
use Rattle.rml_resolved.specs.Binding.{after_goals}
use Rattle.rml_checked.proofs.binding.+goals.Given as goal

abbrev pub invariant-after_goals-loop-goal : goal.invariant-after_goals-loop-goal
invariant-after_goals-loop-goal l = after_goals l.goals l.fn.bound ≡ after_goals (drop l.goal-index l.goals) l.bound
