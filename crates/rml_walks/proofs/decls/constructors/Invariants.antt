use Rattle.std.proofs.Common.{◌≡◌, map, drop}
use Rattle.rml_scopes.specs.Steps.{joined, con_steps}
use Rattle.rml_scopes.specs.Walks.{run}
use Rattle.rml_walks.proofs.decls.constructors.Given as goal

abbrev pub invariant-loop-item : goal.invariant-loop-item
invariant-loop-item l =
    run l.world l.fn.walk (joined (map con_steps l.trees)) ≡ run l.world l.walk (joined (map con_steps (drop l.item-index l.trees)))
