use Rattle.std.proofs.Common.{◌≡◌, map, drop}
use Rattle.rml_scopes.specs.Steps.{joined, with_step}
use Rattle.rml_scopes.specs.Walks.{run}
use Rattle.rml_walks.proofs.texts.withs.Given as goal

abbrev pub invariant-loop-item : goal.invariant-loop-item
invariant-loop-item l =
    run l.world l.fn.walk (joined (map with_step l.trees)) ≡ run l.world l.walk (joined (map with_step (drop l.item-index l.trees)))
