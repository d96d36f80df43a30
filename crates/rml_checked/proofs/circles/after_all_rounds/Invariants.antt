use Rattle.std.proofs.Common.{◌≡◌}
use Rattle.rml_resolved.specs.Circles.{rounds}
use Rattle.rml_checked.proofs.circles.after_all_rounds.Given as goal

abbrev pub invariant-loop-round : goal.invariant-loop-round
invariant-loop-round l = l.done ≡ rounds l.graph l.round
