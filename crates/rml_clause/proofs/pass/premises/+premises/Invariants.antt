use Rattle.std.proofs.Common.{take}
use Rattle.std.specs.Prelude.{sum_by}
use Rattle.rml_resolved.specs.Size.{goal_size}
use Rattle.rml_clause.specs.Plain.{ArePremises}
use Rattle.rml_clause.specs.Added.{Adds}
use Rattle.rml_clause.proofs.pass.premises.+premises.Given as goal

abbrev pub invariant-premises-loop-goal : goal.invariant-premises-loop-goal
invariant-premises-loop-goal l = Adds l.fn.making l.making (sum_by goal_size (take l.goal-index l.goals)) (ArePremises l.names l.params (take l.goal-index l.goals))
