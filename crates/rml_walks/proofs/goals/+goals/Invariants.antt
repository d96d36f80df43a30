use Rattle.std.proofs.Common.{◌≡◌, map, drop}
use Rattle.rml_scopes.specs.Steps.{joined, goal_steps}
use Rattle.rml_scopes.specs.Walks.{run}
use Rattle.rml_walks.proofs.goals.+goals.Given as goal

abbrev pub invariant-goals-loop-item : goal.invariant-goals-loop-item
invariant-goals-loop-item l =
    run l.world l.fn.walk (joined (map goal_steps l.trees)) ≡ run l.world l.walk (joined (map goal_steps (drop l.item-index l.trees)))
