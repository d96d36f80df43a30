use Rattle.std.proofs.Common.{◌≡◌, map, drop}
use Rattle.rml_scopes.specs.Steps.{joined, rule_steps}
use Rattle.rml_scopes.specs.Walks.{run}
use Rattle.rml_walks.proofs.goals.rules.Given as goal

abbrev pub invariant-loop-item : goal.invariant-loop-item
invariant-loop-item l =
    run l.world l.fn.walk (joined (map (rule_steps l.relation) l.trees)) ≡ run l.world l.walk (joined (map (rule_steps l.relation) (drop l.item-index l.trees)))
