use Rattle.std.proofs.Common.{◌≡◌, map, drop}
use Rattle.rml_scopes.specs.Steps.{joined, exp_steps}
use Rattle.rml_scopes.specs.Walks.{run}
use Rattle.rml_walks.proofs.terms.+exps.Given as goal

abbrev pub invariant-exps-loop-item : goal.invariant-exps-loop-item
invariant-exps-loop-item l =
    run l.world l.fn.walk (joined (map exp_steps l.trees)) ≡ run l.world l.walk (joined (map exp_steps (drop l.item-index l.trees)))
