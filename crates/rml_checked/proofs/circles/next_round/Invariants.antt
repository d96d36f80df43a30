use Rattle.std.proofs.Common.{◌≡◌, map, take}
use Rattle.rml_resolved.specs.Circles.{are_finished}
use Rattle.rml_checked.proofs.circles.next_round.Given as goal

abbrev pub invariant-loop-needs : goal.invariant-loop-needs
invariant-loop-needs l = l.next ≡ map (are_finished l.done) (take l.needs-index l.graph)
