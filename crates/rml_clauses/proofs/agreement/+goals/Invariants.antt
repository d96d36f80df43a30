use Rattle.std.proofs.Common.{◌≡◌, drop}
use Rattle.std.specs.List.{list_all}
use Rattle.rml_clauses.specs.Agrees.{shapes_of, goal_agrees}
use Rattle.rml_clauses.proofs.agreement.+goals.Given as goal

abbrev pub invariant-do_goals_agree-loop-goal : goal.invariant-do_goals_agree-loop-goal
invariant-do_goals_agree-loop-goal l = list_all (goal_agrees (shapes_of l.rels)) l.goals ≡ list_all (goal_agrees (shapes_of l.rels)) (drop l.goal-index l.goals)
