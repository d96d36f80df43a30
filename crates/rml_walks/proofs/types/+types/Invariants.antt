use Rattle.std.proofs.Common.{◌≡◌, map, drop}
use Rattle.rml_scopes.specs.Steps.{joined, type_steps}
use Rattle.rml_scopes.specs.Walks.{run}
use Rattle.rml_walks.proofs.types.+types.Given as goal

abbrev pub invariant-type_exps-loop-item : goal.invariant-type_exps-loop-item
invariant-type_exps-loop-item l =
    run l.world l.fn.walk (joined (map type_steps l.trees)) ≡ run l.world l.walk (joined (map type_steps (drop l.item-index l.trees)))
