use Rattle.std.proofs.Common.{◌≡◌, take}
use Rattle.rml_resolved.specs.Circles.{rounds}
use Rattle.rml_checked.proofs.circles.none_finished.Given as goal

abbrev pub invariant-loop-needs : goal.invariant-loop-needs
invariant-loop-needs l = l.done ≡ rounds (take l.needs-index l.graph) 0
