use Rattle.std.proofs.Common.{◌≡◌, map, drop}
use Rattle.rml_scopes.specs.Steps.{joined, goal_steps}
use Rattle.rml_named.specs.Gathered.{gather_each}
use Rattle.rml_named.proofs.goals.+goals.Given as goal

abbrev pub invariant-goals-loop-item : goal.invariant-goals-loop-item
invariant-goals-loop-item l =
    gather_each l.world l.values l.fn.gathering (joined (map goal_steps l.trees)) ≡ gather_each l.world l.values l.gathering (joined (map goal_steps (drop l.item-index l.trees)))
