use Rattle.std.proofs.Common.{◌≡◌, map, drop}
use Rattle.rml_scopes.specs.Steps.{joined, exp_steps}
use Rattle.rml_named.specs.Gathered.{gather_each}
use Rattle.rml_named.proofs.terms.+exps.Given as goal

abbrev pub invariant-exps-loop-item : goal.invariant-exps-loop-item
invariant-exps-loop-item l =
    gather_each l.world l.values l.fn.gathering (joined (map exp_steps l.trees)) ≡ gather_each l.world l.values l.gathering (joined (map exp_steps (drop l.item-index l.trees)))
