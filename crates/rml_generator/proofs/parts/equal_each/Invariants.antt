use Rattle.rml_generator.proofs.Holding.{EqualTo}
use Rattle.rml_generator.proofs.parts.equal_each.Given as goal

abbrev pub invariant-loop-i : goal.invariant-loop-i
invariant-loop-i l = EqualTo l.fn.graph l.nodes l.others l.graph l.i
