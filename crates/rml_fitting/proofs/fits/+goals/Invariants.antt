use Rattle.std.proofs.Common.{◌≡◌, map, drop}
use Rattle.rml_types.specs.Schemes.{every}
use Rattle.rml_resolved.specs.Fits.{goal_fits}
use Rattle.rml_fitting.proofs.fits.+goals.Given as goal

abbrev pub invariant-are_goals-loop-goal : goal.invariant-are_goals-loop-goal
invariant-are_goals-loop-goal l = every (map (goal_fits l.counts l.cons l.vars) l.goals) ≡ every (map (goal_fits l.counts l.cons l.vars) (drop l.goal-index l.goals))
