use Rattle.rml_reach.specs.Components.{Closes}
use Rattle.rml_reach.proofs.connected.close.Given as goal

abbrev pub invariant-loop-at : goal.invariant-loop-at
invariant-loop-at l = Closes l.fn.marks.items l.marks.items l.nodes l.from l.at l.chosen
