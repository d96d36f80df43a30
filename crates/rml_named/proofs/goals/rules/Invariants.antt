use Rattle.std.proofs.Common.{◌≡◌, map, drop}
use Rattle.rml_scopes.specs.Steps.{joined, rule_steps}
use Rattle.rml_named.specs.Gathered.{gather_each}
use Rattle.rml_named.proofs.goals.rules.Given as goal

abbrev pub invariant-loop-item : goal.invariant-loop-item
invariant-loop-item l =
    gather_each l.world l.values l.fn.gathering (joined (map (rule_steps l.relation) l.trees)) ≡ gather_each l.world l.values l.gathering (joined (map (rule_steps l.relation) (drop l.item-index l.trees)))
