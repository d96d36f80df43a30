use Rattle.std.proofs.Common.{◌≡◌, map, drop}
use Rattle.rml_scopes.specs.Steps.{joined, pattern_steps}
use Rattle.rml_scopes.specs.Walks.{run}
use Rattle.rml_walks.proofs.terms.+patterns.Given as goal

abbrev pub invariant-patterns-loop-item : goal.invariant-patterns-loop-item
invariant-patterns-loop-item l =
    run l.world l.fn.walk (joined (map pattern_steps l.trees)) ≡ run l.world l.walk (joined (map pattern_steps (drop l.item-index l.trees)))
