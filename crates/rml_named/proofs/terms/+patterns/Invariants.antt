use Rattle.std.proofs.Common.{◌≡◌, map, drop}
use Rattle.rml_scopes.specs.Steps.{joined, pattern_steps}
use Rattle.rml_named.specs.Gathered.{gather_each}
use Rattle.rml_named.proofs.terms.+patterns.Given as goal

abbrev pub invariant-patterns-loop-item : goal.invariant-patterns-loop-item
invariant-patterns-loop-item l =
    gather_each l.world l.values l.fn.gathering (joined (map pattern_steps l.trees)) ≡ gather_each l.world l.values l.gathering (joined (map pattern_steps (drop l.item-index l.trees)))
